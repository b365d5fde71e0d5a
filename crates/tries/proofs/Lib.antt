pub mod CandidatesWalk
pub mod CandidatesList
pub mod CandidatesEnd

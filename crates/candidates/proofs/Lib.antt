pub mod CandidatesAnswer
pub mod CandidatesFill

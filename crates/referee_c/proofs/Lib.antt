mod Signed
mod EntryLaws
mod PlaceLaws
mod ReadLaws

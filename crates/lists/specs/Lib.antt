pub mod Table
pub mod Fold
pub mod Gather
pub mod Put
pub mod Every
pub mod Refusals
pub mod Counting
pub mod Ranking

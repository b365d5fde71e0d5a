pub mod CountsLaws

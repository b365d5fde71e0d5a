pub mod KickerKeys
pub mod KickerLaws

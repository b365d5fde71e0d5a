mod Judged
mod Items
mod Written

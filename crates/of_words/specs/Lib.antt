pub mod HalfTurn

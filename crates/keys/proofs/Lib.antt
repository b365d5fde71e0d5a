pub mod LeastKey

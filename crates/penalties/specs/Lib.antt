pub mod Penalties

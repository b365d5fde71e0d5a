pub mod MemoryFits

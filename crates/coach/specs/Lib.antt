pub mod Coach

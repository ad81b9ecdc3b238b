pub mod EmptySets

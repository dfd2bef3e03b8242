pub mod LackedRows
pub mod ShownCells
pub mod Writing

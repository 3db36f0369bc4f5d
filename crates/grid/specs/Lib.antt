pub mod Refusals
pub mod Positions
pub mod Cursors
pub mod Ranges
pub mod Bits
pub mod Sets
pub mod Printed

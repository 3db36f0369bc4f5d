pub mod Meanings
pub mod Cells
pub mod Cursors
pub mod Selections
pub mod Laws
pub mod Kept

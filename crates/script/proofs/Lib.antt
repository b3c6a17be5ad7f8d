pub mod Cells
pub mod Checked
mod Contents
mod FirstLines
mod LineByLine
pub mod ReadyScripts
mod Steps
mod TextLines
mod Passes
mod Traces
mod Rereading
mod Upgraded
mod Reached
mod Printed

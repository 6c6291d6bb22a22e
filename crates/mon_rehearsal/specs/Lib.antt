pub mod Fault
pub mod Fields
pub mod Printed
pub mod Reading
pub mod Rehearsed
pub mod Script
pub mod ScriptFault
pub mod Trial

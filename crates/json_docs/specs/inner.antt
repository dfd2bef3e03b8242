pub mod ObjectMembersRead
pub mod ScanningArrays

pub mod Walks
pub mod KernelStarts

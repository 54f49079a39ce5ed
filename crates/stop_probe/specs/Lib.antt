pub mod ProbeValues
pub mod Probe
pub mod Journals

-- A taking, told by the ring part before and after a call.
pub mod Taking

-- What is proved, by the folders of specs/.
pub mod Apart
pub mod ApartHearing
pub mod ApartTicking
pub mod Disjoint
pub mod KeepsAsking
pub mod KeepsEntering
pub mod KeepsHearing
pub mod KeepsStarting
pub mod KeepsTicking
pub mod ListKept
pub mod Reached
pub mod RingKept
pub mod SeenKept
pub mod Sound
pub mod ViewKept

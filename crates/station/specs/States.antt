-- What holds in every state that calls can leave since off: `sound` and `apart`, with what each call keeps of them; then the view.
pub mod Reachable
pub mod KeepsTicking
pub mod Disjoint
pub mod KeepsEntering
pub mod Reached
pub mod RingKept
pub mod SeenKept
pub mod ViewKept

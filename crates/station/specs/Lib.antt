-- The types that all of this speaks of.
pub mod Types
-- The rules of the paper.
pub mod Rules
-- The rules worked out for three stations, how long the watch runs, and a block heard twice.
-- The outcomes of each call, which the theorems go by; what a refusal leaves.
-- What holds in every state that calls can leave.
pub mod States
-- Demand 2: what the panel shows, what hearing does to the common memory, and that what is asked for is heard.
pub mod Panel
pub mod Memory
pub mod Acts
pub mod Copies
pub mod Frames
pub mod Outcomes
pub mod RefusedLeft
pub mod Watches

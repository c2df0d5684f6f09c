-- Which message a confirmation speaks of, by the parts that it depends on.
pub mod Parts

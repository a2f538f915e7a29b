mod Regions
mod Polygons
mod Rest
pub mod Stands

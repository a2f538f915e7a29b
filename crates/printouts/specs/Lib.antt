pub mod Answers
pub mod Carried
pub mod Left
pub mod Plans
pub mod Printed

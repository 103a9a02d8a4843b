pub mod Crew
pub mod UnderWay
pub mod Turned
pub mod Courses

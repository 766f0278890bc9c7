pub mod Lesson
pub mod Guide
pub mod FetchBuffer
pub mod OneWord
pub mod Flow
pub mod Predictors
pub mod Tables

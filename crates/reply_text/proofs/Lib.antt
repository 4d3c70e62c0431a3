mod Answered
mod Forgetting

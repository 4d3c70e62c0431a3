mod Counting
mod Firsts
mod OneMore
mod Lengths
mod Reports
mod Answering

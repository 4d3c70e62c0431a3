mod InTime
mod LineSteps
mod Numbers

pub mod StepsSeen
pub mod StepsWritten
pub mod Writing

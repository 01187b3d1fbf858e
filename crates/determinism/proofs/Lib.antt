mod Banks
mod Drained
mod Dropped
mod OneText
mod Outcome
mod Printed
mod Twinned

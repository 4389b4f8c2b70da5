mod Greeting
mod Small
mod Stepping

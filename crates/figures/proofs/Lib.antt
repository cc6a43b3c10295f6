mod Small
mod Plan

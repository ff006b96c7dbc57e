mod Rowing
mod States

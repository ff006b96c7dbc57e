mod Fronts
mod States
mod Texts

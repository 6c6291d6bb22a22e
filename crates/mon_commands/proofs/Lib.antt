mod Assigned
mod Heard
mod Meant
mod Rehearsals
mod Servings
mod Steps
mod Walks
mod Wires

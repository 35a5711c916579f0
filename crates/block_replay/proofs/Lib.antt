mod Lines
mod Firsts

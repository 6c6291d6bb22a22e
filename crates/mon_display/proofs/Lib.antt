mod Exponents
mod Ports
mod Rounding

mod Products
mod WordPlaces
mod Segments
mod FileWords

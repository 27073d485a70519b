mod Places
mod Rids

mod Indications
mod Joined

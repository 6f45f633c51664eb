pub mod SettingBits
pub mod Pairing
pub mod Placing
pub mod Starting
pub mod Seating

pub mod Detour

pub mod Cold

pub mod LeftWorlds

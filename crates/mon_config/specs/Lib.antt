pub mod StationCore

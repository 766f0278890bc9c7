pub mod OnePicture
pub mod UnderWay

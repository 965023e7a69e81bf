-- What blending's registers mean, and the kinds of layers. Assumes nothing.
pub mod Layers
pub mod Blend

-- The proof of what explanations have, and the laws that it is made of. No contract cites them. Assumes nothing.
--
-- Explanations has the proof. Rising: lists that rise by a key. Leading: the first two by a key. Fronts: which layer is in
-- front. Backgrounds: their order rises. Layers: the two that they make. Tops: with the object, top and bottom fit. Regions,
-- Effects: those of a column fit. Numbers: a draw beside it. Colors: the colour by a reason. Reasons: that of a case
-- fits. Once: no second reason does.
pub mod Regions
pub mod Rising
pub mod Leading
pub mod Fronts
pub mod Backgrounds
pub mod Layers
pub mod Tops
pub mod Effects
pub mod Numbers
pub mod Colors
pub mod Reasons
pub mod Once
pub mod Explanations

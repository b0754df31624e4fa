mod OneEnd
mod Tells
mod Costs
mod Moments
mod Kept
mod Laws

mod Tops
mod Within

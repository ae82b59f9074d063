mod Banded
mod Carrying
mod Parted

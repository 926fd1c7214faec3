mod TextWords
mod NoWords
mod Said

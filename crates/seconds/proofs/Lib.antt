mod Rounding

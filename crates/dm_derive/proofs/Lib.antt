mod Deriving

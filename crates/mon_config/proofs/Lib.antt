mod Cores
